pub mod FilterSteps
