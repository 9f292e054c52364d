mod ByRates
mod SlopePays
