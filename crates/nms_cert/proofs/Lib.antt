mod AcceptedLemmas
mod FindLemmas
mod OkLemmas
mod QuickLemmas
mod WalkLemmas
