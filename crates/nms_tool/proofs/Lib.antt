mod LiveFacts
mod ServedFacts
mod StatusFacts
