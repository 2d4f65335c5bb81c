-- `export::map::map_of` meets its contract. Each domain is read of its five words.
use Rattle.std.proofs.Common.{ℕ, [], ◌≡◌, ◌/◌, length, take, drop, get_or, rules}
use Rattle.model.specs.Map.{absent}
use Rattle.export.specs.MapWords.{domain_from, capped, map_of}
use Rattle.export.specs.BlockLaws.{domains_cut}
use Rattle.export.specs.WordsLaws.{eight_made}
use Rattle.export.proofs.map.map_of.Goals as goal

pub returns : goal.returns
unfolding map_of
returns c =
    let w = c.args.words.now in
    let count : c.unwrap_or.result ≡ capped (get_or w 3 0) = search rules in
    let read = λ (i : ℕ). domain_from (get_or c.as_chunks.result.0.now i []) 0 in
    let domains = eight_made read (λ i y q l k. (search rules, search rules)) absent c.from_fn.ensures.items in
    let parts : length (take 40 (drop 4 w)) / 5 ≡ 8 = search rules in
    rw (count, domains, c.as_chunks.ensures.front, parts, domains_cut w)
