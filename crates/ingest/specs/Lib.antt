pub mod Forms
pub mod FormReading
pub mod Ingests
pub mod Faults
pub mod Laws
