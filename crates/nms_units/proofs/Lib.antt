mod DecimalLemmas
mod DigitLemmas
mod LotLemmas
mod MoneyLemmas
mod Powers
mod PriceLemmas
