pub mod Items
pub mod Board
