-- What invariants and proofs alone need: the spots of requests, the search for a join, and the requests by their ids.
pub mod Spots
pub mod Edges
pub mod Search
pub mod Entries
pub mod Shapes
pub mod Lanes
pub mod Requests
pub mod Queues
