pub mod Kind
pub mod Place
