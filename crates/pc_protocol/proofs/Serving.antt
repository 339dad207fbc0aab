-- With its notes a pass may make each step.
use Rattle.std.proofs.Common.{ℕ, ◌≤◌, inl, inr, ⊎_elim, sym, subst, arith}
use Rattle.pc_model.specs.Exchanges.{Visited}
use Rattle.pc_history.proofs.Moments.{versions_never_fall}
use Rattle.pc_protocol.specs.Histories.{Stage, History, IsDecided, value_by}
use Rattle.pc_protocol.specs.Rules.{Rule}
use Rattle.pc_protocol.specs.Notes.{Found, value, by}
use Rattle.pc_protocol.specs.Steps.{IsSettled, HasPassed}
use Rattle.pc_protocol.specs.Serving.{IsSettledByNotes, HasPassedByNotes, NotesServe}
use Rattle.pc_protocol.proofs.Stages.{decided_not_undecided}
use Rattle.pc_protocol.proofs.Loads.{rival_before_tells}

module _ (h : History) (rule : Rule h) where
  settled_by : (n v : ℕ) (f : Found) → IsSettledByNotes h n v f → IsSettled h.stage h.op n v f
  settled_by n v (value w) settled = settled
  settled_by n v (by x) settled = (
    (λ u. decided_not_undecided (h.stage x) (subst IsDecided (sym settled.1.0) settled.1.1) u),
    (λ a among is. subst (λ (st : Stage). value_by st a.old a.new ≤ v) (sym settled.1.0) (settled.2 a among is)),
  )

  passed_by : (s : ℕ) (v : Visited) → HasPassedByNotes h s v → HasPassed h s v
  passed_by s v passed = record {
    found = passed.0;
    looked = passed.1.1;
    settled = settled_by v.node v.version passed.0 passed.2;
  }

  pub notes_serve : NotesServe h
  notes_serve = record {
    draw = λ x published held. record { published = published; held = λ a u among. (held a among).1 u };
    publish = λ x e b is_new well_formed saw fresh apart. record {
      is_new = is_new;
      past = saw.0;
      well_formed = well_formed;
      saw = saw.1;
      fresh = fresh;
      apart = apart;
    };
    commit = λ x s u drew checked. record {
      undecided = u;
      drew = drew;
      checked = λ v among. ⊎_elim (λ own. inl own) (λ passed. inr (passed_by s v passed)) (checked v among);
    };
    read = λ p s b e unread no_changes no_fresh le saw checked. record {
      drew = (unread.0, unread.1);
      empty = unread.2;
      no_changes = no_changes;
      no_fresh = no_fresh;
      seen_at = b;
      past = le;
      saw = saw.1;
      checked = λ v among. passed_by s v (checked v among);
    };
    changed_node = λ x n v w b u covers seen lt. record {
      undecided = u;
      cause = (
        v,
        covers,
        omega (arith, lt, seen.1, versions_never_fall h.opening h.clock h.item rule.run b h.clock n seen.0),
      );
    };
    outdated_node = λ x n u noted. record { undecided = u; cause = noted.1 };
    out_of_stamps = λ x u at_end. record { undecided = u; cause = at_end };
    locked_node = λ x n v pass s u covers other drew rival. record {
      undecided = u;
      cause = (v, covers, other, rival_before_tells h rule n pass (h.published_at x) s (rule.drawn x s drew).1 rival);
    };
  }
