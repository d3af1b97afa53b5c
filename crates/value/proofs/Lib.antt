pub mod Range
pub mod RoundTrip
