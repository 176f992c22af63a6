mod TreeNames
mod TextLemmas
mod TypeLemmas
mod ScopeLemmas
mod DeclaredLemmas
