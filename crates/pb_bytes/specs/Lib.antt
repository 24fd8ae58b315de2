pub mod BigEndian
pub mod Number
pub mod Reading
pub mod Varint
