-- What was stored is the exchange of the words that are listed.
use Rattle.std.proofs.Common.{rules, ◌≡◌, ◌≤◌, ◌+◌, List, length, map, ap, ap₂, ◌∙◌, subst, refl, sym, ◌∷◌, []}
use Rattle.std.proofs.lemmas.List.{length-map}
use Rattle.std.specs.List.Sorted.{IsPermutation, IsNonDecreasingBy}
use Rattle.pc_model.specs.declared.shape.Shape.{Ghosts}
use Rattle.pc_model.specs.Exchanges.{Visited}
use Rattle.pc_exchange_law.specs.Knowing.{IsAboveSeen}
use Rattle.pc_exchange_law.specs.Passes.{PassKnows}
use Rattle.pc_exchange_law.specs.Paths.{Path, read_of}
use Rattle.pc_rule_law.specs.Views.{View, clock_at, word_in, with_notes}
use Rattle.pc_protocol.specs.Notes.{clock_was, saw}
use Rattle.pc_exchange_law.proofs.SeenStamps.{above_clock}
use Rattle.pc_rule.specs.declared.board.Board.{Board}
use Rattle.pc_rule.specs.declared.board.Pass.{Pass}
use Rattle.pc_rule.specs.Listed.{word_number}
use Rattle.pc_rule.specs.Passes.{whole, view, knows, listed, visits, path, board_size, IsPassOf, IsSeatedAs, OnlyListed}
use Rattle.pc_rule.specs.Walking.{path_with, visited_of}
use Rattle.pc_rule.proofs.Calls.{pass_stays, only_listed}
use Rattle.pc_kcas.specs.Exchanges.{ListsTo, VisitsTo, mode_word, visits_by, reads_by}
use Rattle.pc_kcas.specs.Locks.{words_by}
use Rattle.pc_kcas.proofs.Attempts.{describes}
use Rattle.pc_kcas.proofs.PathVisits.{visits_described}
use Rattle.pc_kcas.proofs.Words.{lists_below, only_then}
use Rattle.pc_kcas.proofs.publishing.prepare.Goals as goal

-- the pass is one of the board's still, when its list was made and sorted
module _ {H : Type 0} {S : Ghosts H} where
  sorted_pass : (b : Board H) (p one two three : Pass H S) → IsPassOf b p → IsSeatedAs p one → OnlyListed one two → OnlyListed two three → IsPassOf b three
  sorted_pass b p one two three of seated made sorted =
      let first = pass_stays b p one of seated in let second = pass_stays b one two first (only_listed b one two first made) in
      pass_stays b two three second (only_listed b two three second sorted)

pub visits_of-visits-requires-clause-pass : goal.visits_of-visits-requires-clause-pass
visits_of-visits-requires-clause-pass g c κs within = sorted_pass c.args.board.now c.args.pass.now c.step_9-clock.new.pass c.list_by.new.pass c.sort_listed.new.self
    c.requires.pass c.step_9-clock.ensures.pass.0 c.list_by.ensures.only c.sort_listed.ensures.only

pub write_listed-requires-clause-pass : goal.write_listed-requires-clause-pass
write_listed-requires-clause-pass g c κs within = sorted_pass c.args.board.now c.args.pass.now c.step_9-clock.new.pass c.list_by.new.pass c.sort_listed.new.self
    c.requires.pass c.step_9-clock.ensures.pass.0 c.list_by.ensures.only c.sort_listed.ensures.only

pub returns-clause-path : goal.returns-clause-path
returns-clause-path g c = (
  c.write_visits.ensures.pass.2.0 ∙ (c.write_listed.ensures.pass.2.0 ∙ (ap (λ s. s.me.0.path) c.sort_listed.ensures.only.0 ∙ (ap (λ s. s.me.0.path) c.list_by.ensures.only.0 ∙ c.step_9-clock.ensures.pass.2.0))),
  c.write_visits.ensures.pass.2.1 ∙ (c.write_listed.ensures.pass.2.1 ∙ (c.sort_listed.ensures.only.3 ∙ (c.list_by.ensures.only.3 ∙ c.step_9-clock.ensures.pass.2.1))),
)

pub returns-clause-only : goal.returns-clause-only
returns-clause-only g c = let first = c.args.pass.now in let three = c.sort_listed.new.self in let four = c.write_listed.new.pass in let p = c.write_visits.new.pass in
    let r = c.step_9-clock.result in
    let looked : view three ≡ with_notes (view first) (clock_at r ∷ []) = ap (λ s. s.me.0.view) c.sort_listed.ensures.only.0 ∙ (ap (λ s. s.me.0.view) c.list_by.ensures.only.0 ∙ c.step_9-clock.ensures.told.0) in
    let beside : (knows p).told ≡ (knows c.step_9-clock.new.pass).told = ap (λ (k : PassKnows). k.told) c.write_visits.ensures.beside
    ∙ (ap (λ (k : PassKnows). k.told) c.write_listed.ensures.beside ∙ (ap (λ s. s.me.0.knows.told) c.sort_listed.ensures.only.0 ∙ ap (λ s. s.me.0.knows.told) c.list_by.ensures.only.0)) in
    let told : (knows p).told ≡ clock_was r ∷ saw r (read_of (whole first).path) ∷ (knows first).told = beside ∙ ap (λ (k : PassKnows). k.told) c.step_9-clock.ensures.learnt.noted in
    record {
      view = only_then (view three) (view four) (view p) c.write_listed.ensures.only c.write_visits.ensures.only
          ∙ ap (λ (u : View). record u { attempt = record u.attempt { words = (view p).attempt.words } }) looked;
      told = told;
      noted = ap (λ (k : PassKnows). k.noted) c.write_visits.ensures.beside
          ∙ (ap (λ (k : PassKnows). k.noted) c.write_listed.ensures.beside
          ∙ (ap (λ s. s.me.0.knows.noted) c.sort_listed.ensures.only.0 ∙ (ap (λ s. s.me.0.knows.noted) c.list_by.ensures.only.0 ∙ ap (λ (k : PassKnows). k.noted) c.step_9-clock.ensures.learnt.noted)));
      above = subst (λ l. IsAboveSeen l r) (sym told) (above_clock (knows first).told r (read_of (whole first).path) c.step_9-clock.ensures.learnt.above);
    }

pub returns-clause-each : goal.returns-clause-each
returns-clause-each g c = let first = c.args.pass.now in let one = c.step_9-clock.new.pass in let p = c.write_visits.new.pass in let mode = c.args.mode in
    let same_path : path one ≡ path first = ap₂ path_with (ap (λ v. v.items) c.step_9-clock.ensures.pass.2.1) c.step_9-clock.ensures.pass.2.0 in
    let words : listed c.list_by.new.pass ≡ words_by mode (path first) (listed first) = c.list_by.ensures.words
    ∙ ap₂ (λ (q : Path) l. words_by mode q l) same_path (ap (λ v. v.items) c.step_9-clock.ensures.pass.1) in
    subst (λ l. IsPermutation l (listed p)) words
    (subst (λ l. IsPermutation (listed c.list_by.new.pass) l) (sym (ap (λ v. v.items) (c.write_visits.ensures.pass.1 ∙ c.write_listed.ensures.pass.1))) c.sort_listed.ensures.each)

pub returns-clause-rising : goal.returns-clause-rising
returns-clause-rising g c = subst (λ l. IsNonDecreasingBy word_number l) (sym (ap (λ v. v.items) (c.write_visits.ensures.pass.1 ∙ c.write_listed.ensures.pass.1))) c.sort_listed.ensures.rising

pub returns-clause-described : goal.returns-clause-described
returns-clause-described g c =
    let b = c.args.board.now in let s = c.sort_listed.new.self in let four = c.write_listed.new.pass in let p = c.write_visits.new.pass in let mode = c.args.mode in
    let size : (view p).size ≡ board_size b = c.write_visits.ensures.pass.0.1 ∙ (c.write_listed.ensures.pass.0.1 ∙ (ap (λ s. s.me.0.view.size) c.sort_listed.ensures.only.0
    ∙ (ap (λ s. s.me.0.view.size) c.list_by.ensures.only.0 ∙ (c.step_9-clock.ensures.pass.0.1 ∙ c.requires.pass.1)))) in
    let slots : (board_size b).slots ≡ (view p).size.slots = ap (λ z. z.slots) (sym size) in
    let same_path : path p ≡ path s = ap₂ path_with (ap (λ v. v.items) (c.write_visits.ensures.pass.2.1 ∙ c.write_listed.ensures.pass.2.1)) (c.write_visits.ensures.pass.2.0 ∙ c.write_listed.ensures.pass.2.0) in
    let count : c.visits_of-visits.result ≡ length (visits_by mode (path p)) = c.visits_of-visits.ensures.count ∙ ap (λ (q : Path). length (visits_by mode q)) (sym same_path) in
    let word : c.mode_word-word.result ≡ mode_word mode (path p).visits = c.mode_word-word.ensures (path s).visits (ap length c.visits.ensures.path ∙ (length-map (visits s) visited_of ∙ (search rules))) ∙ ap (λ (q : Path). mode_word mode q.visits) (sym same_path) in
    let f = word_in (view p).attempt.words in
    let lists : ListsTo (mode_word mode (path p).visits) (length (visits_by mode (path p))) (listed p) f (length (listed p)) =
    subst (λ m. ListsTo m (length (visits_by mode (path p))) (listed p) f (length (listed p))) word
    (subst (λ n. ListsTo c.mode_word-word.result n (listed p) f (length (listed p))) count
    (lists_below c.mode_word-word.result c.visits_of-visits.result (board_size b).slots (listed four) (listed p) (word_in (view four).attempt.words) f
    (ap (λ v. v.items) c.write_visits.ensures.pass.1)
    (subst (λ z. length (listed four) ≤ 25 + z) (sym (slots ∙ ap (λ z. z.slots) c.write_visits.ensures.pass.0.1)) four.listing.few) c.write_visits.ensures.below c.write_listed.ensures.words)) in
    let written : VisitsTo (view p).size.slots (visits p) f (length (visits_by mode (path p))) =
    subst (λ s. VisitsTo s (visits p) f (length (visits_by mode (path p)))) slots (subst (λ n. VisitsTo (board_size b).slots (visits p) f n) count c.write_visits.ensures.words) in
    describes (view p).size.slots (mode_word mode (path p).visits) (visits_by mode (path p)) (reads_by mode (path p)) (listed p) f lists
    (visits_described (view p).size.slots (path p) (visits p) p.walking.visits mode f written)

pub returns-clause-visits : goal.returns-clause-visits
returns-clause-visits g c =
    let b = c.args.board.now in let s = c.sort_listed.new.self in let four = c.write_listed.new.pass in let p = c.write_visits.new.pass in let n = c.visits_of-visits.result in
    let size : (view p).size ≡ board_size b = c.write_visits.ensures.pass.0.1 ∙ (c.write_listed.ensures.pass.0.1 ∙ (ap (λ s. s.me.0.view.size) c.sort_listed.ensures.only.0
    ∙ (ap (λ s. s.me.0.view.size) c.list_by.ensures.only.0 ∙ (c.step_9-clock.ensures.pass.0.1 ∙ c.requires.pass.1)))) in
    let slots : (board_size b).slots ≡ (view p).size.slots = ap (λ z. z.slots) (sym size) in
    let f = word_in (view p).attempt.words in
    let stored : f 2 ≡ n = c.write_visits.ensures.below 2 (search rules) ∙ c.write_listed.ensures.words.visits in record {
      within = subst (λ k. k ≤ length (visits p)) (sym stored)
          (subst (λ l. n ≤ length l) (sym (ap (λ v. v.items) (c.write_visits.ensures.pass.2.1 ∙ c.write_listed.ensures.pass.2.1))) c.visits_of-visits.ensures.held);
      each = subst (VisitsTo (view p).size.slots (visits p) f) (sym stored) (subst (λ z. VisitsTo z (visits p) f n) slots c.write_visits.ensures.words);
    }
