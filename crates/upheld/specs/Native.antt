-- What is lent is in slices and structs: words below 2^64, bytes, and numbers of their kinds; and the places that the tables have.
use Rattle.std.specs.Prelude.{ℕ, ◌^◌, ◌≤◌, ◌<◌, List, length, get_or}
use Rattle.format.specs.Artifact as A
use Rattle.rows.specs.Fits.{FitsChunk}
use Rattle.rows.specs.Given.{Bytes}
use Rattle.model.specs.Lent.{Lent}

-- a slice of u64
pub record Slice (t : List ℕ) : Type 0 where
  pub words : (i : ℕ) → get_or t i 0 < 2 ^ 64
  pub few : length t < 2 ^ 64

pub record Native (m : Lent) : Type 0 where
  pub ends : Slice m.ends
  pub constants : Slice m.constants
  pub tokens : Slice m.tokens
  pub assigns : Slice m.assigns
  pub chains : Slice m.chains
  pub steps : Slice m.steps
  pub switches : Slice m.switches
  pub cases : Slice m.cases
  pub ranges : Slice m.ranges
  pub customs : Slice m.customs
  pub inputs : Slice m.inputs
  pub functions : Slice m.functions
  pub parameters : Slice m.parameters
  pub text : Bytes m.text
  pub text_few : length m.text < 2 ^ 64
  pub caps : m.outside.header.caps < 2 ^ 32
  pub low : m.outside.header.low < 2 ^ 64
  pub high : m.outside.header.high < 2 ^ 64
  pub main : FitsChunk m.outside.main

-- the rows that are used have places
pub record Room (places : A.Places) (m : Lent) : Type 0 where
  pub names : m.outside.used.names ≤ places.names
  pub constants : m.outside.used.constants ≤ places.constants
  pub tokens : m.outside.used.tokens ≤ places.tokens
  pub assigns : m.outside.used.assigns ≤ places.assigns
  pub chains : m.outside.used.chains ≤ places.chains
  pub steps : m.outside.used.steps ≤ places.steps
  pub switches : m.outside.used.switches ≤ places.switches
  pub cases : m.outside.used.cases ≤ places.cases
  pub ranges : m.outside.used.ranges ≤ places.ranges
  pub customs : m.outside.used.customs ≤ places.customs
  pub inputs : m.outside.used.inputs ≤ places.inputs
  pub functions : m.outside.used.functions ≤ places.functions
  pub parameters : m.outside.used.parameters ≤ places.parameters
