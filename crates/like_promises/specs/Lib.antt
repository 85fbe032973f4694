-- What a run promises: a store, its replies, the order of requests, hot pages, places, and the report.
pub mod Types
pub mod Workload
pub mod Store
pub mod Asked
pub mod Likes
pub mod RunStore
pub mod Order
pub mod Replies
pub mod HotPages
pub mod Log
pub mod Collected
pub mod Serial
pub mod EndToEnd
pub mod RunFault
pub mod places
pub mod Report
