mod LineFacts
mod WordFacts
