-- Each trap is told apart: computed from the definitions.
use mathlib.Core.Path.{refl}
use Rattle.diagram.specs.Traps.{answers, Answers, tables, Tables, stops, Stops, Root, Padded}
use Rattle.diagram.proofs.Computing.{computing}

pub answers_right : Answers
unfolding computing answers
answers_right = refl

pub tables_right : Tables
unfolding computing tables
tables_right = refl

pub stops_right : Stops
unfolding computing stops
stops_right = refl

pub root_right : Root
unfolding computing
root_right = refl

pub padded_right : Padded
unfolding computing
padded_right = refl
