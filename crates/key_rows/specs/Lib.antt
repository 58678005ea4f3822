pub mod KeyRows
