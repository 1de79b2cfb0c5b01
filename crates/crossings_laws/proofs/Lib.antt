-- THE LAWS of crossings: `Listed` of any tables that fit, `Build` after a build in the covering mode.
pub mod Listed
pub mod Build
