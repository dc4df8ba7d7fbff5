pub mod proving
