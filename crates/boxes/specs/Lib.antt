-- The box and the protocol: document 01, 'A box', 'What each kind does', 'Answers'; Figure 4 of the paper that document 01 names.
-- One file a kind and an order.
pub mod Box
pub mod Sound
pub mod Out
pub mod Ready
pub mod Multicast
pub mod Accept
pub mod AcceptAck
pub mod Deliver
pub mod Newleader
pub mod Merge
pub mod NewleaderAck
pub mod NewState
pub mod NewstateAck
pub mod Post
pub mod Retry
pub mod Stand
pub mod Cut
pub mod Step
pub mod Promise
pub mod Examples
pub mod Lengths
