mod PatternsBack
