pub mod TextsApart
