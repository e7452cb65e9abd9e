mod KeptLemmas
mod Repeats
