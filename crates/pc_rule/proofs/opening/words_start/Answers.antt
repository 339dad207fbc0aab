use Rattle.std.proofs.Common.{rules, ◌≡◌, ◌∙◌, length, refl, sym, ap, subst, arith}
use Rattle.pc_rule_law.specs.Board.{words_of}
use Rattle.pc_rule_law.specs.Tables.{size_of}
use Rattle.pc_rule.proofs.Filling.{AreWritten, one_more_written, none_written, all_written}
use Rattle.pc_rule.proofs.opening.words_start.Goals as goal

pub loop-at-init : goal.loop-at-init
loop-at-init c = let e = c.in_ok-words.ensures.items in let o = c.args.opening.now in record {
  length = (ap length e, omega arith);
  room = refl;
  written = subst (AreWritten o) (sym e) (none_written o);
}

pub loop-at-preserved : goal.loop-at-preserved
loop-at-preserved c = let inv = c.loop-at.invariant in let o = c.args.opening.now in let items = c.push_reserved.ensures.items in record {
  length = (search rules, (let lt = c.loop-at-test.true in omega arith));
  room = search rules;
  written = subst (AreWritten o) (sym items) (one_more_written o c.loop-at.words.items c.word_start.result inv.written (λ q in_q e. c.word_start.ensures q in_q (e ∙ inv.length.0)));
}

pub returns : goal.returns
returns c = let inv = c.loop-at.invariant in let o = c.args.opening.now in let all : length c.loop-at.words.items ≡ words_of (size_of o) = (let is = inv.length.0 in let le = inv.length.1 in let ge = c.loop-at-test.false in omega arith) in
    all_written o c.loop-at.words.items inv.written all
