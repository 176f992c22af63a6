-- what the public contracts rest on
pub mod Rose
pub mod Opened
pub mod Calls
pub mod Listed
pub mod MemSink
pub mod NamedFiles
pub mod MemFiles
pub mod SureFiles
pub mod SureSink
pub mod OsSink
pub mod OsFiles
pub mod Words
-- what the functions inside the crate promise each other
pub mod Placed
