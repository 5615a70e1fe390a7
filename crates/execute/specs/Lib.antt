pub mod Execute
