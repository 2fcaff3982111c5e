pub mod DemandOne
pub mod DemandTwo
pub mod DemandThree
pub mod Choosing
pub mod Meaning
pub mod WorkedExamples
