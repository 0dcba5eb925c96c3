-- The laws of the layout, for any good row.
pub mod Cases
pub mod Compare
pub mod Devices
pub mod Facts
pub mod NodeBlocks
pub mod PlaceKinds
pub mod Places
pub mod Ranges
pub mod Results
pub mod RunningAddr
pub mod TableAreas
pub mod Zones
