pub mod LittleEndianLemmas
pub mod RoundTrips
