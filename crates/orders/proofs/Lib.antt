pub mod KeptOrders
