-- What the contracts on records cite: contents, written form, equality, older nodes, graphs, and upstream's view of a table.
pub mod Abstract
pub mod Form
pub mod Graph
pub mod HighLow
pub mod Older
pub mod Same
