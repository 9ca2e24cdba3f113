pub mod GateSteps
pub mod WaitingCalls
pub mod WaitLaws
pub mod RungOffers
