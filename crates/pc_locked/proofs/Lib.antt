pub mod Charging
pub mod Paying
pub mod Refusals
pub mod StateSteps
