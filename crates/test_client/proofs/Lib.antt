mod RootLemmas
mod StayLemmas
mod StepLemmas
