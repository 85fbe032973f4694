-- What a host did at a service, and the likes that its clients were told.
pub mod Hosts
pub mod Likes
