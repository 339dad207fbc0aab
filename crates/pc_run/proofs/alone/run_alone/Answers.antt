-- Before it begins the worker has run nothing; when it has ended there is an entry for each call.
use Rattle.std.proofs.Common.{sym, ap, refl, length, ◌∙◌}
use Rattle.pc_pool.proofs.UpTo.{length_up_to}
use Rattle.pc_run.proofs.Steps.{nothing_yet}
use Rattle.pc_run.proofs.alone.run_alone.Goals as goal

pub invariant_of-lone : goal.invariant_of-lone
invariant_of-lone g c = nothing_yet c.args.calls.now c.in_ok-map.map c.in_ok-map.ensures.opened.no_entries
    (c.in_ok-map.ensures.opened.size ∙ c.share_of.ensures.share) c.in_ok-map.ensures.opened.room c.requires.few
    c.requires.in_range
    (λ avl. c.in_ok-map.ensures.balanced (sym c.in_ok-map.ensures.opened.kind_is ∙ avl))

pub into_map-requires : goal.into_map-requires
into_map-requires g c = record {
  all = sym (length_up_to (length c.run_client.new.worker.map.entries))
      ∙ c.run_client.ensures.work.all_unless_stopped refl
      ∙ sym (ap (λ task. length task.calls) c.run_client.ensures.same);
}
