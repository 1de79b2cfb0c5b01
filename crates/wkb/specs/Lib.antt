-- `Bytes`: the bytes of numbers, points, LineStrings and MultiLineStrings, after OGC 06-103r4. `Reading`: what stands at a position, the fields
-- of a LineString, and what its reader answers and leaves, after document 01. `Multi`: the like of a MultiLineString, after document 02.
-- `Inside`: what private functions promise.
pub mod Bytes
pub mod Reading
pub mod Multi
pub mod Inside
