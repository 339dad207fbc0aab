-- The laws of a get, on either kind of search tree: its course on sound cells, and what it keeps whatever it
-- is told.
use Rattle.std.proofs.Common.{◌≡◌, ℕ, ◌+◌, ◌*◌, ◌==◌, inl, List, [], Some, None}
use Rattle.std.proofs.Common.{refl, sym, ap, subst, arith}
use Rattle.std.proofs.lemmas.Bool.{eq-eqb, ne_eqb, cond-true, cond-false, cond_both}
use Rattle.pc_model.specs.declared.cell.Field.TheVariants.{Value as ValueField}
use Rattle.pc_model.specs.declared.call.Call.TheVariants.{Get}
use Rattle.pc_model.specs.declared.cell.Field.TheVariants.{Key as KeyField}
use Rattle.pc_model.specs.Map.{Pairs, IsKey, value_at, value_or_nothing}
use Rattle.pc_model.specs.Cells.{Cells, IsSlot}
use Rattle.pc_model.specs.Sides.{link_of}
use Rattle.pc_model.specs.Trees.{Kind, IsTreeNode, IsSearchTree}
use Rattle.pc_model.specs.TreeForms.{tree_form}
use Rattle.pc_model.proofs.HolePairs.{value_at-hole, value_at-empty_hole}
use Rattle.pc_model.proofs.TreeFormLaws.{tree_form_laws}
use Rattle.pc_plan.specs.declared.plan.Ask.{Ask}
use Rattle.pc_plan.specs.declared.plan.Ask.TheVariants.{Read as AskRead}
use Rattle.pc_plan.specs.declared.plan.Told.{Told}
use Rattle.pc_plan.specs.declared.plan.Told.TheVariants.{Begin, Version, Number}
use Rattle.pc_plan.specs.declared.walk.Walk.{Walk}
use Rattle.pc_plan.specs.declared.walk.Step.{Step}
use Rattle.pc_plan.specs.declared.walk.Step.TheVariants.{Visit, Read, Here, Missing, Astray}
use Rattle.pc_plan.specs.declared.walk.Awaited.TheVariants.{Choice}
use Rattle.pc_plan.specs.Terms.{Terms, map_terms}
use Rattle.pc_plan.specs.Traces.{Event, learned, learned_along, reads_since_visit}
use Rattle.pc_plan.specs.Runs.{Runs, IsReady, reached}
use Rattle.pc_plan.specs.Lawful.{IsWord, IsLawfulAsk, IsLawful}
use Rattle.pc_plan.specs.Laws.{PlanLaws}
use Rattle.pc_plan.specs.Walks.{on_way, way, walk_step}
use Rattle.pc_plan.specs.Quiet.{ChangesNothing, AsksForNoExchange}
use Rattle.pc_plan.proofs.Courses.{Course, EndsRight, runs_by_course}
use Rattle.pc_plan.proofs.Learning.{kept_along, is_some-seen}
use Rattle.pc_plan.proofs.Quiets.{quiet_by_steps}
use Rattle.pc_plan.proofs.WalkCourses.{left_node, walk_at, walk_to_key}
use Rattle.pc_plan.proofs.WalkLawful.{StepStands, Waits, walk_stands, waits_lawful, goes_on}
use Rattle.pc_bst.specs.declared.get.GetPhase.{GetPhase}
use Rattle.pc_bst.specs.declared.get.GetPhase.TheVariants.{Walking, Reading, Ended}
use Rattle.pc_bst.specs.declared.get.BstGet.{BstGet}
use Rattle.pc_plan.specs.EndLaws.{IsAnswer}
use Rattle.pc_bst.specs.Gets.{get_at, get_of, get_walked, get_told, get_moves}

-- On sound cells: the course of a get, which ends in a right answer.

abbrev get_terms : ℕ → Terms
get_terms k = map_terms (Get k)

abbrev pub GetsRight : Kind → ℕ → Cells → Pairs → ℕ → List Event → Ask → Type 0
GetsRight kind slots c ps k past a = EndsRight (tree_form kind) slots c ps (get_terms k) past a × IsAnswer a

module _ (kind : Kind) (slots : ℕ) (c : Cells) (ps : Pairs) (k : ℕ) (ready : IsReady (tree_form kind) slots c ps) where
  tree : IsSearchTree kind slots c ps
  tree = ready.is_sound

  abbrev Goes : ℕ → List Event → BstGet × Ask → Type 0
  Goes turns past s = Course slots c get_moves (GetsRight kind slots c ps k) s.1 turns past s.0

  abbrev walked : Walk → Step → BstGet × Ask
  walked w s = get_walked (get_at w Walking) w s

  get_course : Goes (6 * slots + (1 + 3)) [] (get_moves (get_of k) Begin)
  get_course = walk_to_key slots c kind ps ready.few tree k get_moves (GetsRight kind slots c ps k)
      (λ w. get_at w Walking) walked
      (λ w t. refl) (λ w n. refl) (λ w n f. refl)
      (λ w x ne. cond-false (x == w.key) (get_at w Reading, AskRead w.node ValueField) (
        get_at (on_way w x) Walking,
        AskRead w.node (way w x),
      ) (ne_eqb x w.key (λ e. ne (sym e))))
      1
      (λ q s n l r h e past unseen_l unseen_r.
      let w : Walk = walk_at slots c kind ps ready.few tree k (left_node slots c kind ps ready.few tree k q s) n
      Choice in
      let node : IsTreeNode kind slots c q n = h.spelled.1 in
      let slot : IsSlot slots n = node.slot in
      let found : value_at k ps ≡ Some (c n ValueField) = value_at-hole kind slots c ps tree.tree k q (link_of s) n l
      r tree.rising h (sym e) in
      let reading : BstGet × Ask = (get_at w Reading, AskRead n ValueField) in
      let next : walked w (Here (c n KeyField)) ≡ reading
      = cond-true (c n KeyField == k) reading (
        get_at (on_way w (c n KeyField)) Walking,
        AskRead n
            (way w (c n KeyField)),
      ) (eq-eqb (c n KeyField) k (sym e)) in
      subst (Goes 1 past) (sym next) ((omega arith, omega arith), ((sym (ap value_or_nothing found), refl, tt), tt)))
      (λ q s a h past.
      let missing : value_at k ps ≡ None = value_at-empty_hole kind slots c ps tree.tree k q (link_of s) h in
      ((sym (ap value_or_nothing missing), refl, tt), tt))

get_runs : (kind : Kind) → Runs get_of get_moves IsKey get_terms (tree_form kind)
get_runs kind = runs_by_course get_of get_moves IsKey get_terms (tree_form kind) (GetsRight kind)
    (λ slots c ps k past a h. h.0)
    (λ slots. 6 * slots + (1 + 3)) (λ slots. omega arith)
    (λ slots c ps k ready key. get_course kind slots c ps k ready)

-- Whatever it is told.

abbrev GetStands : List Event → BstGet → Ask → GetPhase → Type 0
GetStands past g a Walking = Waits past g.walk a
GetStands past g a Reading = IsLawfulAsk past a
GetStands past g a Ended = IsLawfulAsk past a

abbrev GetKeeps : List Event → BstGet × Ask → Type 0
GetKeeps past s = GetStands past s.0 s.1 s.0.phase

walked_keeps : (past : List Event) (w : Walk) (s : Step) → StepStands past w s
    → GetKeeps past (get_walked (get_at w Walking) w s)
walked_keeps past w (Visit n) h = h
walked_keeps past w (Read n f) h = h
walked_keeps past w (Here x) h =
    let one : reads_since_visit past ≡ 1 = h.2 in
    let reading : BstGet × Ask = (get_at w Reading, AskRead w.node ValueField) in
    let going : BstGet × Ask = (get_at (on_way w x) Walking, AskRead w.node (way w x)) in
    cond_both (x == w.key) reading going (GetKeeps past)
    (λ _. (is_some-seen w.node w.version past h.0.come.seen, omega arith))
    (λ _. goes_on past w x h.0.come (omega arith))
walked_keeps past w (Missing s link) h = tt
walked_keeps past w Astray h = tt

get_keeps : (past : List Event) (g : BstGet) (a : Ask) (phase : GetPhase) (t : Told) → IsWord t
    → GetStands past g a phase
    → GetKeeps (learned a t past) (get_told (get_at g.walk phase) phase t)
get_keeps past g a Walking t word h = walked_keeps (learned a t past) (walk_step g.walk t).0 (walk_step g.walk t).1
    (walk_stands past g.walk a t word h)
get_keeps past g a Reading Begin word h = tt
get_keeps past g a Reading (Version v) word h = tt
get_keeps past g a Reading (Number v) word h = tt
get_keeps past g a Ended t word h = tt

get_stands : (past : List Event) (g : BstGet) (a : Ask) (phase : GetPhase) → GetStands past g a phase
    → IsLawfulAsk past a
get_stands past g a Walking h = waits_lawful past g.walk a h
get_stands past g a Reading h = h
get_stands past g a Ended h = h

get_lawful : IsLawful get_of get_moves IsKey
get_lawful = record {
  first = λ k key. refl;
  asks = λ k ts key words.
      let s : BstGet × Ask = reached get_of get_moves k ts in
      get_stands (learned_along get_moves [] (get_moves (get_of k) Begin) ts) s.0 s.1 s.0.phase
      (kept_along get_moves GetKeeps (λ past s t word h. get_keeps past s.0 s.1 s.0.phase t word h) ts []
      (get_moves (get_of k) Begin) words (refl, refl, inl refl));
}

pub get_laws : (kind : Kind) → PlanLaws get_of get_moves IsKey (λ k. map_terms (Get k)) (tree_form kind)
get_laws kind = record {
  runs = get_runs kind;
  lawful = get_lawful;
  form_laws = tree_form_laws kind;
  settles_nothing = λ k reply some. refl;
}

-- A get never asks for an exchange.

abbrev IsQuiet : BstGet × Ask → Type 0
IsQuiet s = ChangesNothing s.1

quiet_walked : (g : BstGet) (w : Walk) (s : Step) → IsQuiet (get_walked g w s)
quiet_walked g w (Visit n) = tt
quiet_walked g w (Read n f) = tt
quiet_walked g w (Here x) =
    let reading : BstGet × Ask = (get_at w Reading, AskRead w.node ValueField) in
    let going : BstGet × Ask = (get_at (on_way w x) g.phase, AskRead w.node (way w x)) in
    cond_both (x == w.key) reading going IsQuiet (λ _. tt) (λ _. tt)
quiet_walked g w (Missing s link) = tt
quiet_walked g w Astray = tt

quiet_told : (g : BstGet) (phase : GetPhase) (t : Told) → IsQuiet (get_told g phase t)
quiet_told g Walking t = quiet_walked g (walk_step g.walk t).0 (walk_step g.walk t).1
quiet_told g Reading Begin = tt
quiet_told g Reading (Version v) = tt
quiet_told g Reading (Number v) = tt
quiet_told g Ended t = tt

pub get_is_quiet : AsksForNoExchange get_of get_moves IsKey
get_is_quiet = quiet_by_steps get_of get_moves IsKey (λ g t. quiet_told g g.phase t)
