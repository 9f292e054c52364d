pub mod InRows
