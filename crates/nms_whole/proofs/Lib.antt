mod LineFacts
mod ReadFacts
