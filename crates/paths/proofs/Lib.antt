pub mod HeldLaws
pub mod ReadHeld
pub mod ReadSteps
