pub mod KnownValues
pub mod SoilOnSkin
pub mod Inhalation
