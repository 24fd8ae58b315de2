pub mod HostDisk
pub mod HostBucket
