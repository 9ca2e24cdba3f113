-- The lemmas of this crate: visits that were served, and passes of workers that are folded into the first.
pub mod RanVisits
pub mod ServedVisits
pub mod FoldedWorkers
pub mod ServedRuns
pub mod AllServed
pub mod TcpEntrances
