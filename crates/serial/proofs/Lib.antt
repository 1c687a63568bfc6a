pub mod Runs
pub mod Graphs
pub mod LogOrders
pub mod OneCopy
pub mod SerialLines
pub mod LastWrites
pub mod Explained
