mod PartFacts
mod LegFacts
mod FitFacts
