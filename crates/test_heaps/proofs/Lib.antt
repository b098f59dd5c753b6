mod NameLemmas
mod RevivedLemmas
mod UntypedLemmas
