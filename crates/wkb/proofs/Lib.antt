-- `Words`: laws of numbers in bytes. `Axes`: laws of the coordinates and points at a position. `Stores`: laws of a slice that something is put
-- into. `Fields`: what each field decides. `Looks`: what a look at the fields promises, by its answer. `LineStrings`: points are found exactly in the
-- bytes of a LineString. `Readings`: its reader's promise from its parts. `Vectors`: some bytes, computed. `Walks`: the ways over the members of a
-- MultiLineString. `MultiLineStrings`: members are found exactly in its bytes.
-- `Chains`: how many lines members make. `MultiReadings`: its reader's promise from its parts. `Outcomes`: a promise settles the answer and all slices.
pub mod Words
pub mod Stores
pub mod Axes
pub mod Fields
pub mod Looks
pub mod LineStrings
pub mod Readings
pub mod Vectors
pub mod Walks
pub mod MultiLineStrings
pub mod Chains
pub mod MultiReadings
pub mod Outcomes
