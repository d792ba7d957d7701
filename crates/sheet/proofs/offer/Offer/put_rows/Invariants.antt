use Rattle.std.proofs.Common.{◌≡◌, ◌+◌, ◌*◌, ◌≤◌, length, map, drop}
use Rattle.std.specs.List.{concat}
use Rattle.text.specs.Written.{line_text, price_text}
use Rattle.sheet.specs.Facts.{row_facts}
use Rattle.sheet.specs.Sheet.{priced}
use Rattle.sheet.specs.Writing.{with_text, so_far}
use Rattle.sheet.proofs.offer.Offer.put_rows.Given as goal

abbrev pub invariant-loop-row : goal.invariant-loop-row
invariant-loop-row l = record {
  text :
      with_text (so_far l.sheet) (concat (map (λ p. line_text (map price_text p.1)) (priced (l.row-index + 1) (map row_facts (drop l.row-index l.row-items)))))
      ≡ with_text (so_far l.initial.sheet) (concat (map (λ p. line_text (map price_text p.1)) (priced 1 (map row_facts l.row-items))));
  short :
      length (concat (map (λ p. line_text (map price_text p.1)) (priced 1 (map row_facts l.row-items))))
      ≤ l.row-index * 57 + length (concat (map (λ p. line_text (map price_text p.1)) (priced (l.row-index + 1) (map row_facts (drop l.row-index l.row-items)))));
}
