-- `Rules`: laws of what is kept and of the reasons; that kept and dropped together are the input, and that cleaning again changes nothing. `Parts`:
-- laws of parts of points, and of slices that are filled along them. `Walking`: of the way along the pieces of a member, and along members. `Entry`: the
-- promise from its parts. `Outcomes`: it settles the answer and all slices. `Again`: a call on what another kept. `Files`: the
-- same by way of a file. `Vectors`: some cases, computed.
pub mod Rules
pub mod Parts
pub mod Walking
pub mod Entry
pub mod Outcomes
pub mod Again
pub mod Files
pub mod Vectors
