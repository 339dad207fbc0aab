-- What loads tell is true at once.
use Rattle.std.proofs.Common.{◌≡◌, ℕ, suc, ◌<◌, ◌≤◌, Option, Some, None, refl, sym, ap, ◌∙◌}
use Rattle.std.proofs.Common.{subst, arith, le_refl, le_of_lt}
use Rattle.pc_model.specs.declared.cell.Field.{Field}
use Rattle.pc_model.specs.declared.cell.Field.TheVariants.{Version}
use Rattle.pc_model.specs.Cells.{IsEven}
use Rattle.pc_model.specs.Exchanges.{Changed, FreshNode, Exchange, applied}
use Rattle.pc_history.specs.Footprints.{IsAmong, IsOfWord, LeavesWord, IsWellFormed}
use Rattle.pc_history.specs.Runs.{after}
use Rattle.pc_history.proofs.Updates.{updated_here}
use Rattle.pc_history.proofs.Footprints.{same_change, applied_change, applied_fresh}
use Rattle.pc_history.proofs.Moments.{late_cells, versions_never_fall, same_version_same_node}
use Rattle.pc_protocol.specs.Histories.{for_exchange, ended, changed, undecided, committed, Stage, locked, History, moments}
use Rattle.pc_protocol.specs.Histories.{cells_now, IsPublished}
use Rattle.pc_protocol.specs.Histories.{IsUndecided, value_by, IsSpare, Drew}
use Rattle.pc_protocol.specs.Seeing.{ChangesVersion, Covers}
use Rattle.pc_protocol.specs.Rules.{IsFrom, Refers, Rule}
use Rattle.pc_protocol.specs.Notes.{IsBy, IsBelowFound, visited, read_word, saw, looked, held}
use Rattle.pc_protocol.specs.Notes.{rival, IsTrueNote}
use Rattle.pc_protocol.specs.Telling.{found_in, IsNoted, LoadsTell}
use Rattle.pc_protocol.proofs.Stages.{undecided_value, undecided_is_published, decided_not_undecided, used_not_spare}
use Rattle.pc_protocol.proofs.Stages.{committed_is_published, aborted_is_published}
use Rattle.pc_protocol.proofs.Notes.{NeverFalls, word_later}
use Rattle.pc_protocol.proofs.Drawn.{changed_version_grows}

module _ (h : History) (rule : Rule h) where
  falls : NeverFalls (moments h)
  falls = versions_never_fall h.opening h.clock h.item rule.run

  -- the node's plain version is the version now
  version_tells : (n : ℕ) → (IsSpare (h.slot n) → ⊥) → IsTrueNote h (visited n (h.plain n Version) h.clock)
  version_tells n not_spare = let same : h.plain n Version ≡ cells_now h n Version = rule.plain_is n Version not_spare in
      (le_refl h.clock, omega (arith, same))

  word_tells : (n v b : ℕ) (f : Field) → (IsSpare (h.slot n) → ⊥) → IsTrueNote h (visited n v b)
      → IsTrueNote h (read_word n v f (h.plain n f) h.clock)
  word_tells n v b f not_spare visit = (
    le_refl h.clock,
    (
      omega (arith, visit.1, falls b h.clock n visit.0),
      (λ t le version. (λ i. late_cells h.opening h.clock h.item rule.run t le i n f)
          ∙ sym (rule.plain_is n f not_spare)),
    ),
  )

  -- a moment tells of a node's words, at the version that the node has then
  moment_tells : (t n : ℕ) (f : Field) → t ≤ h.clock
      → IsTrueNote h (read_word n (moments h t n Version) f (moments h t n f) t)
  moment_tells t n f le = (
    le,
    (
      le_refl (moments h t n Version),
      (λ u later same. same_version_same_node h.opening h.clock h.item rule.run t u n later same f),
    ),
  )

  -- what an exchange that took effect left
  module _ (x s : ℕ) (is : h.stage x ≡ committed s) where
    after_it : moments h (suc s) ≡ applied (h.op x) (moments h s)
    after_it = ap (λ (o : Option Exchange). after o (moments h s)) (rule.standing x s is).1

    won_shape : IsWellFormed (h.op x)
    won_shape = rule.well_formed x (committed_is_published (h.stage x) s is)

    won_change : (n : ℕ) (f : Field) (a : Changed) → IsAmong a (h.op x).changes → IsOfWord n f a
        → moments h (suc s) n f ≡ a.new
    won_change n f a among is_of = (λ i. after_it i n f)
        ∙ (λ i. applied (h.op x) (moments h s) (sym is_of.0 i) (sym is_of.1 i))
        ∙ applied_change (h.op x) won_shape (moments h s) a among

    won_version_tells : (n : ℕ) (a : Changed) → IsAmong a (h.op x).changes → IsOfWord n Version a
        → IsTrueNote h (visited n a.new (suc s))
    won_version_tells n a among is_of =
        let version : moments h (suc s) n Version ≡ a.new = won_change n Version a among is_of in
        ((rule.standing x s is).0.0, omega (arith, version))

    won_word_tells : (n : ℕ) (f : Field) (a b : Changed) → IsAmong a (h.op x).changes → IsOfWord n Version a
        → IsAmong b (h.op x).changes → IsOfWord n f b → IsTrueNote h (read_word n a.new f b.new (suc s))
    won_word_tells n f a b in_a is_a in_b is_b =
        subst (λ (v : ℕ). IsTrueNote h (read_word n v f b.new (suc s))) (won_change n Version a in_a is_a)
        (subst (λ (w : ℕ). IsTrueNote h (read_word n (moments h (suc s) n Version) f w (suc s)))
        (won_change n f b in_b is_b) (moment_tells (suc s) n f (rule.standing x s is).0.0))

    won_node_tells : (g : FreshNode) (f : Field) → (h.op x).fresh ≡ Some g
        → IsTrueNote h (read_word g.node (g.fields Version) f (g.fields f) (suc s))
    won_node_tells g f made =
        let word : (k : Field) → moments h (suc s) g.node k ≡ g.fields k = λ k. (λ i. after_it i g.node k)
        ∙ applied_fresh (h.op x) won_shape (moments h s) g k made in
        subst (λ (v : ℕ). IsTrueNote h (read_word g.node v f (g.fields f) (suc s))) (word Version)
        (subst (λ (w : ℕ). IsTrueNote h (read_word g.node (moments h (suc s) g.node Version) f w (suc s))) (word f)
        (moment_tells (suc s) g.node f (rule.standing x s is).0.0))

  reference_tells : (n : ℕ) (f : Field) (x : ℕ) → h.reference n f ≡ Some x → IsTrueNote h (held x n f)
  reference_tells n f x is = ((rule.refers n f x is).published, (λ u. is))

  -- the plain value of a word with a reference is that of any change of it
  value_of : (n : ℕ) (f : Field) (x : ℕ) (a : Changed) → h.reference n f ≡ Some x → IsAmong a (h.op x).changes
      → IsOfWord n f a → value_by (h.stage x) a.old a.new ≡ h.plain n f
  value_of n f x a is among is_of =
      let there : Refers h.stage h.op h.plain h.slot n f x = rule.refers n f x is in
      let same : a ≡ there.change = same_change (h.op x).changes a there.change
      (rule.well_formed x there.published).once among there.among
      (there.is_of.0 ∙ sym is_of.0, there.is_of.1 ∙ sym is_of.1) in
      ap (λ (b : Changed). value_by (h.stage x) b.old b.new) same ∙ there.value

  now_is : (n : ℕ) (f : Field) (x : ℕ) → h.reference n f ≡ Some x → h.plain n f ≡ cells_now h n f
  now_is n f x is = rule.plain_is n f (used_not_spare (h.slot n) (rule.refers n f x is).in_use)

  -- a version by a stage is at least the old one
  at_least : (st : Stage) (old new : ℕ) → old ≤ new → old ≤ value_by st old new
  at_least Stage.absent old new le = le_refl old
  at_least Stage.undecided old new le = le_refl old
  at_least (Stage.committed s) old new le = le
  at_least (Stage.aborted w) old new le = le_refl old

  reference_version_tells : (n x : ℕ) (a : Changed) → h.reference n Version ≡ Some x → IsAmong a (h.op x).changes
      → IsOfWord n Version a → IsTrueNote h (visited n a.old h.clock)
  reference_version_tells n x a is among is_of =
      let grows : a.old ≤ a.new =
      changed_version_grows (h.op x) (rule.well_formed x (rule.refers n Version x is).published) a among is_of.1 in
      let least : a.old ≤ value_by (h.stage x) a.old a.new = at_least (h.stage x) a.old a.new grows in
      (le_refl h.clock, omega (arith, least, value_of n Version x a is among is_of, now_is n Version x is))

  -- a look
  module _ (s n : ℕ) (lt : s < h.clock) (not_spare : IsSpare (h.slot n) → ⊥) where
    version_is : h.plain n Version ≡ cells_now h n Version
    version_is = rule.plain_is n Version not_spare

    others_leave : (y t : ℕ) → IsUndecided (h.stage y) → Drew h.clock h.drawn_for t y → t < s
        → (IsBy (found_in (h.reference n Version) (h.plain n Version)) y → ⊥)
        → LeavesWord (h.op y) n Version
    others_leave y t u drew below not_by = record {
      unchanged = λ b among is.
          let there : h.reference n Version ≡ Some y =
          (λ i. h.reference (sym is.0 i) (sym is.1 i)) ∙ rule.held y t b u drew among in
          not_by (subst (λ (o : Option ℕ). IsBy (found_in o (h.plain n Version)) y) (sym there) refl);
      not_fresh = λ g is same. not_spare
          (subst (λ (m : ℕ). IsSpare (h.slot m)) (sym same) (rule.fresh y g u is).is_spare);
    }

    below_by : (o : Option ℕ) → h.reference n Version ≡ o
        → IsBelowFound h.stage h.op n (moments h s n Version) (found_in o (h.plain n Version))
    below_by None is = omega (arith, version_is, falls s h.clock n (le_of_lt lt))
    below_by (Some x) is =
        let there : Refers h.stage h.op h.plain h.slot n Version x = rule.refers n Version x is in record {
          published = there.published;
          change = there.change;
          among = there.among;
          is_of = there.is_of;
          bound = omega (arith, there.value, version_is, falls s h.clock n (le_of_lt lt));
        }

    look_tells : IsTrueNote h (looked s n (found_in (h.reference n Version) (h.plain n Version)))
    look_tells = (lt, record { others = others_leave; below = below_by (h.reference n Version) refl })

  clock_tells : (e : Exchange) → IsNoted h e → IsTrueNote h (saw h.clock e)
  clock_tells e noted = (
    le_refl h.clock,
    record {
      visits = λ v among.
          let there : IsEven v.version × ((b : ℕ) × IsTrueNote h (visited v.node v.version b)) =
          noted.visits v among in
          (there.0, omega (arith, there.1.1.1, falls there.1.0 h.clock v.node there.1.1.0));
      reads = λ r among.
          let there : (v : ℕ) × Covers e r.node v
          × ((b : ℕ) × IsTrueNote h (read_word r.node v r.field r.number b)) = noted.reads r among in (
            there.0,
            there.1,
            word_later (moments h) falls there.2.0 h.clock r.node there.0 r.field r.number there.2.1.0 there.2.1.1,
          );
    },
  )

  pub rival_before_tells : (n pass b c : ℕ) → b ≤ c → IsTrueNote h (rival pass n c) → IsTrueNote h (rival pass n b)
  rival_before_tells n pass b c le r = record {
    exchange = r.exchange;
    owned = r.owned;
    published = r.published;
    changes = r.changes;
    past = omega (arith, r.past, le);
    cleared = from_before (h.cleared_at r.exchange) r.cleared;
  }
    where
      from_before : (o : Option ℕ) → IsFrom c o → IsFrom b o
      from_before None from = tt
      from_before (Some k) from = omega (arith, from, le)

  uncleared_from : (x c : ℕ) → h.cleared_at x ≡ None → IsFrom c (h.cleared_at x)
  uncleared_from x c is = subst (IsFrom c) (sym is) tt

  held_version_tells : (n v b x : ℕ) (f : Field) (w : ℕ) → IsUndecided (h.stage x) → h.reference n Version ≡ Some x
      → ChangesVersion (h.op x) n v → IsTrueNote h (read_word n v f w b) → h.plain n f ≡ w
  held_version_tells n v b x f w u is covers seen =
      let worth : value_by (h.stage x) covers.change.old covers.change.new ≡ h.plain n Version =
      value_of n Version x covers.change is covers.among covers.is_of in
      let version : cells_now h n Version ≡ v = sym (now_is n Version x is) ∙ sym worth
      ∙ undecided_value (h.stage x) covers.change.old covers.change.new u ∙ covers.old in
      rule.plain_is n f (used_not_spare (h.slot n) (rule.refers n Version x is).in_use)
      ∙ seen.1.1 h.clock seen.0 version

  pub loads_tell : LoadsTell h
  loads_tell = record {
    version = version_tells;
    word = word_tells;
    opening_word = λ n f. moment_tells 0 n f (omega arith);
    won_version = λ x s n a is. won_version_tells x s is n a;
    won_word = λ x s n f a b is. won_word_tells x s is n f a b;
    won_node = λ x s g f is. won_node_tells x s is g f;
    reference = reference_tells;
    reference_version = reference_version_tells;
    look = look_tells;
    time = le_refl h.clock;
    clock = clock_tells;
    stamp = λ x. (omega arith, updated_here h.drawn_for h.clock (for_exchange x) h.clock refl);
    publication = λ x e b. (
      subst IsPublished (sym (updated_here h.stage x undecided x refl)) tt,
      updated_here h.op x e x refl,
      updated_here h.published_at x b x refl,
    );
    status = λ x d. (refl, d);
    rival_reference = λ n x c le is.
        let there : Refers h.stage h.op h.plain h.slot n Version x = rule.refers n Version x is in record {
          exchange = x;
          owned = refl;
          published = there.published;
          changes = record { change = there.change; among = there.among; is_of = there.is_of };
          past = le;
          cleared = uncleared_from x c (rule.uncleared n Version x is);
        };
    rival_undecided = λ n x c a le u among is_of. record {
      exchange = x;
      owned = refl;
      published = undecided_is_published (h.stage x) u;
      changes = record { change = a; among = among; is_of = is_of };
      past = le;
      cleared = uncleared_from x c (rule.running x (λ d. decided_not_undecided (h.stage x) d u));
    };
    changed_told = λ n x v is least.
        let cause : (w : ℕ) × Covers (h.op x) n w × (w < cells_now h n Version) = rule.caused x (changed n) is in
        (le_refl h.clock, omega (arith, cause.2, least cause.0 cause.1));
    outdated_told = λ n x is. (aborted_is_published (h.stage x) (changed n) is, rule.caused x (changed n) is);
    ended_told = λ x is. rule.caused x ended is;
    rival_told = λ n x pass is. (rule.caused x (locked n pass) is).3;
    rival_before = rival_before_tells;
    held_version = held_version_tells;
  }
