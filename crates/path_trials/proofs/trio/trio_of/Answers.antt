-- Each pass of the list is at rest.
use Rattle.std.proofs.Common.{◌≡◌, [], ◌∷◌, Option, None, Some, ap}
use Rattle.std.specs.Prelude.{IfSome}
use lib.ListN.{get_elem?}
use Rattle.path_trials.specs.Operating.{IsAtRest}
use Rattle.path_trials.specs.Seats.{HasSeat, IsThird}
use Rattle.path_trials.specs.declared.trio.Trio.{Trio}
use Rattle.path_trials.proofs.Trios.{rests_at, third_at}
use Rattle.path_trials.proofs.trio.trio_of.Goals as goal

-- what follows for the three that were found
if_found : (P Q : Trio → Type 0) (o : Option Trio) → ((t : Trio) → P t → Q t) → IfSome o P → IfSome o Q
if_found P Q None follows is = is
if_found P Q (Some t) follows is = follows t is

pub returns-clause-first : goal.returns-clause-first
unfolding if_found
returns-clause-first c = let r = c.requires in let l = c.args.passes.items in let b = c.args.board.now in
    if_found (λ t. l ≡ t.first ∷ t.second ∷ t.third ∷ []) (λ t. HasSeat b 0 t.first × IsAtRest t.first) c.taken_apart.result
    (λ t is. rests_at b l r.all r.«open».0 r.«open».1 0 t.first (ap (λ k. get_elem? k 0) is)) c.taken_apart.ensures

pub returns-clause-second : goal.returns-clause-second
unfolding if_found
returns-clause-second c = let r = c.requires in let l = c.args.passes.items in let b = c.args.board.now in
    if_found (λ t. l ≡ t.first ∷ t.second ∷ t.third ∷ []) (λ t. HasSeat b 1 t.second × IsAtRest t.second) c.taken_apart.result
    (λ t is. rests_at b l r.all r.«open».0 r.«open».1 1 t.second (ap (λ k. get_elem? k 1) is)) c.taken_apart.ensures

pub returns-clause-third : goal.returns-clause-third
unfolding if_found
returns-clause-third c = let r = c.requires in let l = c.args.passes.items in let b = c.args.board.now in
    if_found (λ t. l ≡ t.first ∷ t.second ∷ t.third ∷ []) (λ t. HasSeat b 2 t.third × IsAtRest t.third × IsThird b t.third) c.taken_apart.result
    (λ t is. let at = ap (λ k. get_elem? k 2) is in let rests = rests_at b l r.all r.«open».0 r.«open».1 2 t.third at in
    (rests.0, rests.1, third_at b l t.third r.all r.three at)) c.taken_apart.ensures
