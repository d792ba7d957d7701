-- The laws of the parts, as they are stated.
use Rattle.std.proofs.Common.{◌^◌, ◌<◌, [], ◌∷◌, ◌++◌, decimal, sym, ap, ◌∙◌, append_assoc}
use Rattle.text.specs.Form.{whole, price, keyed}
use Rattle.text.specs.Written.{price_text, line_text}
use Rattle.text.specs.Laws.{NumberReadsBack, PriceReadsBack, NameReadsBack, NumbersReadBack, PricesReadBack, KeyedReadsBack, NamedReadsBack}
use Rattle.std.proofs.ByRecursion.{All-weaker}
use Rattle.text.proofs.NumbersBack.{number_reads, price_reads, name_reads}
use Rattle.text.proofs.FieldsBack.{ReadsBack, line_of_reads, whole_back, price_back, keyed_reads, named_reads}

pub number_back : NumberReadsBack
number_back = number_reads

pub price_text_back : PriceReadsBack
price_text_back = price_reads

pub name_back : NameReadsBack
name_back who rest fits past = name_reads who rest fits.0 fits.1 fits.2 past

pub numbers_back : NumbersReadBack
numbers_back ns rest all = line_of_reads whole decimal ns rest (All-weaker (λ n. n < 10 ^ 10) (ReadsBack whole decimal) whole_back ns all)

pub prices_back : PricesReadBack
prices_back ps rest all = line_of_reads price price_text ps rest (All-weaker (λ p. p < 10 ^ 9) (ReadsBack price price_text) price_back ps all)

pub keyed_back : KeyedReadsBack
keyed_back keyword n rest small =
    ap (keyed (keyword ++ (59 ∷ []))) (append_assoc keyword (59 ∷ line_text (decimal n ∷ [])) rest ∙ sym (append_assoc keyword (59 ∷ []) (line_text (decimal n ∷ []) ++ rest)))
    ∙ keyed_reads (keyword ++ (59 ∷ [])) n rest small

pub named_back : NamedReadsBack
named_back who n rest fits small = named_reads who n rest fits.0 fits.1 fits.2 small
