-- `Laws` has the laws of the walk and of its entry, `Builds` that of a build; `Examples` has the list worked out beside the walk's answer. The steps to
-- them: `Walking` has the turns of such a line, `Listed` the members of the lists, `Answering` the answer from what the floats say; `Bounds`, `Units`
-- and `Coordinates` what they do say; `Steady`, `Separate` and `OnTheWay`, which only a horizontal line needs, that t_max stays finite.
pub mod Examples
pub mod Walking
pub mod Listed
pub mod Answering
pub mod Bounds
pub mod Units
pub mod Coordinates
pub mod Steady
pub mod Separate
pub mod OnTheWay
pub mod Laws
pub mod Builds
