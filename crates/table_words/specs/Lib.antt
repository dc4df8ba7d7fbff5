pub mod KeyLists
pub mod Tables
pub mod Laws
