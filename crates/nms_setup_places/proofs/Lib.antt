mod NamedLemmas
mod LeastLemmas
mod NamesTwice
mod LeastFinding
